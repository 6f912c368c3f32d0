mod Hexing
